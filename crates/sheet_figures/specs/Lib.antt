-- What a reader of the figure sheet must believe, above what `sheet_writer` says of the other sheets.
pub mod FigureSheet
pub mod AnyHead
pub mod Private
