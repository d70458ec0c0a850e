-- What a reader of paths in order must believe: which of them a byte more leaves; Rows, the row of lines in order; Promises, that it is in order and that a range holds
-- exactly the paths that begin with what was read; and Private, which only private contracts cite.
pub mod Order
pub mod Rows
pub mod Promises
pub mod Private
