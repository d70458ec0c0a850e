-- Laws that this crate's proofs share; Same: where both programs plan a sheet they answer the same bytes.
pub mod Planned
pub mod Same
