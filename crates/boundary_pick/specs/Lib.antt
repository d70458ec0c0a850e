-- What a C program gets back from the call that picks files by their paths.
pub mod Calls
pub mod Private
