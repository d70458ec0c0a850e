-- Laws that this crate's proofs share; Determined for the planner, which prices the list.
pub mod Words
pub mod Laying
pub mod Sizes
pub mod MetRows
pub mod Facts
pub mod Cells
pub mod Choices
pub mod Steps
pub mod RowLoop
pub mod ColumnLoop
pub mod Asking
pub mod Stack
pub mod ReadLoop
pub mod Outcome
pub mod Refusals
pub mod Determined
