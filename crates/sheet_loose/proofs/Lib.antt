-- Laws that this crate's proofs share, and those that other crates cite.
pub mod Passing
pub mod Order
pub mod Answers
pub mod Ends
pub mod Wants
