-- What "least" means, and how often a file is wanted; Recurrence and Lines are tools of the table engine. The laws about them are in proofs/.
pub mod Least
pub mod AnyHead
pub mod Wants
pub mod Recurrence
pub mod Slopes
