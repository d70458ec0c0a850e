-- Filling: what the reader leaves in rows of zeros. Runs: what whoever takes a sheet's run by value needs of it.
pub mod Filling
pub mod Runs
