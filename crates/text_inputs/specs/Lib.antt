-- How an input that holds a sheet and another text is cut, and how much was read.
pub mod Inputs
