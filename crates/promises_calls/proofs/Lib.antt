-- The proofs: a table written into C's row is found there again (Found), calls are a day (DeskCalls), and what each is refused for (CallRefusals). Two results of
-- a call that fit its contract are equal (Determined). Each ticket's line (WaitingTells). Events by the call are a day at the desk (CallJournal). The calls that take sheets (SheetCalls).
pub mod Found
pub mod DeskCalls
pub mod SheetCalls
pub mod CallRefusals
pub mod Determined
pub mod WaitingTells
pub mod CallsTell
pub mod EventCalls
pub mod CallLines
pub mod CallJournal
