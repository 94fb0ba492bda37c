-- The four calls as one, for the exports on bytes.
pub mod Inner
