-- Laws that the proofs of the exported functions share.
pub mod AnyPlaces
pub mod Calls
pub mod Plans
pub mod AnyPlans
