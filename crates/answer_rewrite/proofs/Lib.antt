-- Laws that this crate's proofs share, and those that other crates cite.
pub mod Cut
pub mod Filling
pub mod Answers
pub mod Meaning
