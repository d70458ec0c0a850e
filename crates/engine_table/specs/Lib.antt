-- What a reader of the table engine must believe stands in Listing; Private is for the contracts of private functions.
pub mod Listing
pub mod Private
