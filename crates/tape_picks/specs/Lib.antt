-- What a reader of an index by paths must believe: the files of a path, and what each line of a list comes to; Promises, what its state tells; and Private, which only
-- private contracts cite.
pub mod Picks
pub mod Promises
pub mod Private
