-- What a reader of lists of paths must believe: what a path and a list of them are, and the rows that say where each stands. Private, which only private
-- contracts cite, can be left out.
pub mod Paths
pub mod Rows
pub mod Private
