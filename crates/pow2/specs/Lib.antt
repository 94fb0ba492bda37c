-- Powers of two.
pub mod Pow2
