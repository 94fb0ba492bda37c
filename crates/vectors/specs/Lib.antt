-- Vectors of doubles as lists.
pub mod Vectors
