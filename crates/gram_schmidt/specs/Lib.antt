-- A product with the generator, made orthogonal to the columns before it, and its norm.
pub mod Basis
pub mod Memory
