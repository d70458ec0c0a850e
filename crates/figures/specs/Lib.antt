-- What a reader of the figures must believe, above what `walk` says of a list's price.
pub mod Figures
pub mod AnyHead
pub mod Private
