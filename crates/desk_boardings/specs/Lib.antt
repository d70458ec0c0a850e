-- A boarding in request L6's words: who boards and what they want (Boarders), and what is answered (Boardings). Private is for the contracts of
-- private functions.
pub mod Boarders
pub mod Boardings
pub mod Private
