-- Laws that this crate's proofs share, and those that other crates cite.
pub mod Counting
pub mod Passing
pub mod Answers
pub mod Determined
pub mod Bounds
pub mod RoundTrip
pub mod AnyTrip
