-- Who waits, told: the text and what is answered (Waits). Private is for the contracts of private functions.
pub mod Waits
pub mod Private
