-- What a C program gets back from the two exported functions stands in Boundary; Private is for the contract of a private function.
pub mod Boundary
pub mod Private
