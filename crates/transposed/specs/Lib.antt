-- The calls on the transposed matrix.
pub mod Transposed
