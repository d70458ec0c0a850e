-- Laws that this crate's proofs share, and those that other crates cite.
pub mod Search
pub mod Members
pub mod Numbers
pub mod Accepted
pub mod Table
pub mod Sound
pub mod Joined
pub mod Judged
pub mod Stops
pub mod Alone
pub mod Entries
pub mod Formed
pub mod AnyHead
pub mod Pairs
