-- Laws that this crate's proofs share, and those that other crates cite.
pub mod Bytes
pub mod Decimals
pub mod Split
