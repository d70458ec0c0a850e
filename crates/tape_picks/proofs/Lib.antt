-- Laws that this crate's proofs share, and those that other crates cite.
pub mod Noting
pub mod Extents
pub mod Ranges
pub mod Walking
pub mod Gathering
pub mod Asking
pub mod Entering
pub mod Searching
pub mod Told
