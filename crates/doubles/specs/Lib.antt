-- Doubles: Rust's operators, sizes, maxima, whole numbers, the number that a bit pattern stands for, doubles as whole numbers of units, and operations that neither overflow
-- nor have a tiny result.
pub mod F64
pub mod Whole
pub mod Sum
pub mod Value
pub mod Units
pub mod Clean
