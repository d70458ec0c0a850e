-- Laws that this crate's proofs share; Joined, Same and Determined also for the crates above.
pub mod Filling
pub mod Joined
pub mod Named
pub mod Naming
pub mod Refusals
pub mod Priced
pub mod Same
pub mod Determined
