-- Laws that this crate's proofs share, and those that other crates cite.
pub mod Files
pub mod Order
pub mod Tallies
pub mod Neighbours
pub mod Laid
pub mod Promise
pub mod Framing
pub mod Apart
