-- What a run is and what is refused, in document 01's words and the requests'. Read in this order.
pub mod Run
pub mod Lists
pub mod Judging
pub mod Rows
pub mod Alone
pub mod AnyHead
pub mod Private
