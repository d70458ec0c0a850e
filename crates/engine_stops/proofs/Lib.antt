-- Laws that this crate's proofs share, and those that other crates cite.
mod Joining
mod Filling
mod Answers
pub mod Table
pub mod Renamed
pub mod Said
pub mod Held
pub mod Halves
