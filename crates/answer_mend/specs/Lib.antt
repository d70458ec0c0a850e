-- What a reader of the mending must believe, in document 02's words. Read in this order.
pub mod Wants
pub mod Mending
pub mod Private
