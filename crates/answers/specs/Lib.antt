-- Answers as numbers.
pub mod Told
