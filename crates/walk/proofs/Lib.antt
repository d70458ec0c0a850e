-- Laws that this crate's proofs share, and those that other crates cite.
pub mod Steps
pub mod Joins
pub mod Legs
pub mod Between
pub mod Filling
pub mod Sweeps
pub mod Pulled
pub mod Walks
pub mod AnyHead
pub mod OwnStop
pub mod Priced
pub mod Laws
pub mod Places
