-- What a C program gets back from a call that takes sheets' bytes and writes a text.
pub mod Texts
pub mod Private
