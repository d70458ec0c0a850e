-- Laws that this crate's proofs share, and those that other crates cite.
pub mod Sheets
pub mod Plans
pub mod Refusals
pub mod Reread
pub mod RoundTrip
pub mod Worked
