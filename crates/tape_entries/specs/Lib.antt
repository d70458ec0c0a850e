-- What a reader of entries must believe: which files are one entry, and how many reads it has; and Private, which only private contracts cite.
pub mod Entries
pub mod Private
