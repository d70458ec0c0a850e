-- What a reader of tape tables must believe, in request L1's words. Read in this order; Private, which only private contracts cite, can be left out.
pub mod TapeTable
pub mod Input
pub mod Framed
pub mod Promises
pub mod Private
