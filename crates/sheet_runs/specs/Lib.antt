-- What the run of a sheet is by value, above what is said of sheets.
pub mod SheetRuns
pub mod Private
