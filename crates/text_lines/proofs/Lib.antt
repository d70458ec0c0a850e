-- Laws that this crate's proofs share, and those that other crates cite.
pub mod Passing
pub mod Determined
pub mod Filling
