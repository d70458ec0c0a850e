-- What a reader of the plain engine must believe stands in Plain; Private is for the contracts of private functions.
pub mod Plain
pub mod Private
