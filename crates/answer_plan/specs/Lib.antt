-- What a reader of the program's answer must believe, above what is said of sheets, plans and their texts: Recall. PlannedLists is for those who go
-- the same way with another engine or another text.
pub mod Recall
pub mod PlannedLists
pub mod Private
