-- What an auditor must believe: Text for what numbers and names are, Found for what is found.
pub mod Text
pub mod Found
