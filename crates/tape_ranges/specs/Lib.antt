-- What a reader of the ranges must believe; and Private, which only private contracts cite.
pub mod Ranges
pub mod Private
