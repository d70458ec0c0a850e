-- Laws that this crate's proofs share, and that the contract determines the answer (Determined).
pub mod Reading
pub mod Looking
pub mod Saying
pub mod Leaving
pub mod Determined
pub mod Rooms
pub mod Rehearsing
