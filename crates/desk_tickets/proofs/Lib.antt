-- Laws of the waiting table: an office's places as its tickets and then empty ones (Halves), sound rows (Sound),
-- tickets at an office's places (Placed), filing (Storing), withdrawing (Leaving), and what each call leaves (Kept).
pub mod Halves
pub mod Sound
pub mod Placed
pub mod Storing
pub mod Leaving
pub mod Kept
