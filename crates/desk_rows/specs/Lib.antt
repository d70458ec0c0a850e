-- The waiting table in a lent row of records (Desk), an event of a day at the desk on such a row (Events), and a line of a journal (Journal).
pub mod Desk
pub mod Events
pub mod Journal
