-- Laws that this crate's proofs share, and those that other crates cite.
pub mod Without
pub mod Filling
pub mod Answers
pub mod AnyHead
pub mod Differences
