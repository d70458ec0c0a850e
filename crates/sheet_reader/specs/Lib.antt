-- What a reader of the sheets must believe, in document 01's words. Read in this order.
pub mod Lines
pub mod Found
pub mod Sheet
pub mod Reading
pub mod Private
