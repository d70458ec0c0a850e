-- Laws that this crate's proofs share, and those that other crates cite.
pub mod Counting
pub mod Entering
pub mod Texts
pub mod Answers
