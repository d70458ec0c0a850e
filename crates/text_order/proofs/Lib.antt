-- Laws that this crate's proofs share, and those that other crates cite.
pub mod Halving
pub mod Prefixes
pub mod Sorted
