-- What pick answers: which files the lines of a list ask for, what is refused, and the answer with its two texts; and Private, which only private contracts cite.
pub mod Picks
pub mod Answer
pub mod Promises
pub mod Applies
pub mod Private
