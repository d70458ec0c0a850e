-- A day at the desk, in the words of requests L6 and L7: its events' lines (Events), the texts of answers (Answers), and what is answered to an event
-- (Days). Private is for the contracts of private functions.
pub mod Events
pub mod Answers
pub mod Days
pub mod Private
