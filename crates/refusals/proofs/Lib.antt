-- Laws of verdicts, which every crate that judges cites.
pub mod Verdicts
pub mod Checked
