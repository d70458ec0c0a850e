-- What an auditor must believe: the texts that are put on a page, and what putting one leaves.
pub mod Printing
