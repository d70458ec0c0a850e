-- What a reader of names must believe: what references mean; Readings, how they are read byte by byte; Promises, that this says the same. Private, which
-- only private contracts cite, can be left out.
pub mod References
pub mod Readings
pub mod Promises
pub mod Private
