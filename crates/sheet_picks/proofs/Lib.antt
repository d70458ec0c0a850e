-- Laws that this crate's proofs share, and those that other crates cite.
pub mod InTurn
pub mod Apart
pub mod Lines
pub mod Stands
pub mod Laying
pub mod Sheets
pub mod Handing
pub mod Fitting
