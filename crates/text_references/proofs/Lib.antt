-- Laws that this crate's proofs share, and those that other crates cite.
pub mod Digits
pub mod Written
pub mod Streams
