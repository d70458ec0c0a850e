-- Laws that this crate's proofs share, and those that other crates cite.
pub mod Turns
pub mod Plans
pub mod Outcomes
pub mod Bounds
