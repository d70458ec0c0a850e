-- What a reader of tapes' files must believe. Read in this order; Private, which only private contracts cite, can be left out.
pub mod Index
pub mod NamedFiles
pub mod Elements
pub mod Values
pub mod Volumes
pub mod Promises
pub mod Private
