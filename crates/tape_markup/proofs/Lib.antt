-- Laws that this crate's proofs share, and those that other crates cite.
pub mod Scanning
pub mod Pieces
pub mod Meets
pub mod Counts
pub mod Names
pub mod Texts
pub mod Spelled
pub mod Balanced
