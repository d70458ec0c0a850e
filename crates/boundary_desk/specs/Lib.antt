-- A row of C's records and the table in it (Records), and what a C program gets back from filing, withdrawing, boarding and from an event (Calls). Private is for the
-- contracts of private functions.
pub mod Records
pub mod Calls
pub mod Private
