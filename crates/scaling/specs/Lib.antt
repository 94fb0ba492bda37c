-- The operations of a run one by one, and vectors times a power of two.
pub mod Operations
pub mod Doubled
