-- What a reader of the pricer must believe, in document 01's words. Read in this order, after those of `runs`.
pub mod Walk
pub mod Detours
pub mod Rows
pub mod Price
pub mod AnyHead
pub mod Private
