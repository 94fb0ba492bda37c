-- The weighted columns of a combination.
pub mod Inner
