-- The table of refusals in document 01's and the requests' words.
pub mod Refusals
