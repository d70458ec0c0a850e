-- What a reader of the writers must believe, in document 01's words, above what `sheet_reader` says of a sheet. Read in this order.
pub mod Writing
pub mod PlanSheet
pub mod AnyHead
pub mod RefusalLines
pub mod Private
