-- What a reader of the answer must believe, above what is said of sheets, plans and figures and of `answer_any`: AnyBuys.
pub mod AnyBuys
pub mod Private
