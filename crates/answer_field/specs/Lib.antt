-- What the answer to a sheet is where the plain engine plans it.
pub mod Field
pub mod Private
