-- What a reader of a month's page must believe, above what is said of a sheet's outcome: Month for the figures, Parts for the input, Page for the
-- text. Private is for the contracts of private functions.
pub mod Month
pub mod Parts
pub mod Page
pub mod Private
