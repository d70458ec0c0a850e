-- What a reader of loose sheets must believe, in document 02's words. Read in this order.
pub mod Loose
pub mod Reading
pub mod Private
