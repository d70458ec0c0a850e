-- What an auditor must believe: Lines for what each line is, Found for what a reader answers.
pub mod Lines
pub mod Found
pub mod Private
