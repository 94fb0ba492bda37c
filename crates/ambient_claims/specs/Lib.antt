-- Theorems on a soak under a changing ambient level.
pub mod Ran
pub mod Claims
