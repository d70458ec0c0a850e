-- The lines of tickets that wait, one behind the other, and the text of them all (Lines); what is answered (Told).
pub mod Lines
pub mod Told
