-- What a reader of a price and of a check must believe, above what is said of sheets, lists, plans and their texts.
pub mod RunRules
pub mod Pricing
pub mod Checking
pub mod Inputs
pub mod Private
