-- The inner product.
pub mod Dot
