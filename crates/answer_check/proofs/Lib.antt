-- Laws that this crate's proofs share, and those that other crates cite.
pub mod Differing
pub mod Pages
pub mod Formed
pub mod Prices
pub mod Framing
pub mod Checked
pub mod Determined
pub mod Same
