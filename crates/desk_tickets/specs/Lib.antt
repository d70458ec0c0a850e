-- The waiting table in the words of requests L6 and L7: what a sound row of records is (Table), what a filing does (Filings), and what a withdrawal
-- does (Withdrawals). Private is for the contracts of private functions.
pub mod WaitingTable
pub mod Filings
pub mod Withdrawals
pub mod Private
