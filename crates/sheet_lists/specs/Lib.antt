-- What a reader of lists must believe: Form for what a plan sheet and a detour list are, Reading for what their readers answer.
pub mod Form
pub mod Reading
pub mod Private
