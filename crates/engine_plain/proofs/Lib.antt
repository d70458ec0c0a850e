-- Laws that this crate's proofs share; Determined for the demands.
pub mod Sizes
pub mod Windows
pub mod Overlays
pub mod Listed
pub mod Checks
pub mod Held
pub mod Planned
pub mod Determined
