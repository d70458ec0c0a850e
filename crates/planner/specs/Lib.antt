-- What a reader of the planner must believe stands in Rows, Plan and AnyHead; Private is for the contracts of private functions.
pub mod Rows
pub mod Plan
pub mod AnyHead
pub mod Private
