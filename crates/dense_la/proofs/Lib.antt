-- The laws of the halvings, and the definition computed on some doubles.
pub mod Halved
pub mod Examples
pub mod Fits
