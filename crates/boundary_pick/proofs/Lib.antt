-- Laws that this crate's proofs share.
pub mod Calling
