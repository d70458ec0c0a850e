-- Laws that this crate's proofs share.
pub mod Places
pub mod Thin
pub mod Determined
pub mod Kept
pub mod Events
pub mod Remarks
