-- Laws that this crate's proofs share, and those that other crates cite.
pub mod Placing
pub mod Frames
pub mod Digits
pub mod Bare
pub mod Whole
pub mod Roles
pub mod Said
pub mod Extents
pub mod Uuids
pub mod Same
pub mod Alike
