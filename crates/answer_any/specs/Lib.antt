-- What a reader of the answer for any run must believe, above what answer_plan says of an answer: AnyRun. AnyLists is for those who go the same way to
-- another text.
pub mod AnyRun
pub mod AnyLists
pub mod Private
