-- Laws that this crate's proofs share, and those that other crates cite.
pub mod Planned
pub mod Answered
pub mod Determined
pub mod Same
