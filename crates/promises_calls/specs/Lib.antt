-- Tickets on rows of C's memory: calls are a day (DeskCalls), and what each is refused for (CallRefusals); what is told of
-- a ticket that waits is so (WaitingTells), and how its line reads (CallLines); a journal of events gives the table in the row (CallJournal). The calls that take sheets: SheetCalls.
pub mod DeskCalls
pub mod CallRefusals
pub mod WaitingTells
pub mod CallsTell
pub mod CallLines
pub mod CallJournal
pub mod SheetCalls
