-- What a reader of markup must believe. Read in this order; Private, which only private contracts cite, can be left out.
pub mod Markup
pub mod Tree
pub mod Steps
pub mod Places
pub mod Promises
pub mod Private
