-- What a reader of a file's range must believe: Spans for the range, Promises for what it says of all extents; and Private, which only private contracts cite.
pub mod Spans
pub mod Promises
pub mod Private
