-- For the contracts of private functions alone: positions in a text, the files counted so far, and an input's texts. No public contract cites them.
pub mod Parts
pub mod Tallies
pub mod Input
