-- Laws that this crate's proofs share, and those that other crates cite.
pub mod Judging
pub mod Asked
pub mod Labels
pub mod Answering
pub mod Spans
pub mod Promised
pub mod Readable
pub mod First
