-- What a reader of a sheet's outcome must believe, above what is said of sheets and plans. Private is cited by contracts of private functions alone.
pub mod Outcomes
pub mod Private
