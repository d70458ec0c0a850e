-- What a reader of the joining must believe stands in Joining; Private is for the contracts of private functions, those of the engines too.
pub mod Joining
pub mod Private
