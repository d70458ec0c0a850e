-- What a reader of names must believe stands in text_order and tape_files. Private is cited only by private contracts, and can be left out.
pub mod Private
