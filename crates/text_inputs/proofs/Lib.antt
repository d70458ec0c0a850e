-- The laws of an input of two texts, and of a line as it is read.
pub mod Parts
pub mod Reading
