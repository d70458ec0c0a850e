-- What a reader of picked sheets must believe: the entries of wanted files, the run and the sheet of them, the names, and what is answered; and Private, which only
-- private contracts cite.
pub mod Entries
pub mod Sheets
pub mod Names
pub mod Writing
pub mod Promises
pub mod Private
