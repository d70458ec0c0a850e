-- Rows of records and of words, read and written (Filling); what a verdict tells of the rows (Calling); who
-- has left (Taking); each call's contract from what it calls (Answers,
-- Waiting).
pub mod Filling
pub mod Calling
pub mod Taking
pub mod Answers
pub mod Waiting
