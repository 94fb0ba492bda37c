-- The exponential of a double as the Rust's `dense_exp` computes it.
pub mod DenseExp
