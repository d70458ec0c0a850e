-- What a reader of the rewriting must believe, above what `sheet_reader` says of a sheet and `sheet_writer` of the row that takes a text.
pub mod Rewriting
pub mod Private
