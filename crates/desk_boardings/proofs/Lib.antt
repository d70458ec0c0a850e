-- Laws of boarding: one want more (Adding), the loops that gather wants (Loops), who boards from a sound row (Who), and the answer (Answers).
pub mod Adding
pub mod Loops
pub mod Who
pub mod Answers
