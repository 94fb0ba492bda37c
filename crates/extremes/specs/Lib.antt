-- The largest and the smallest among the last W numbers.
pub mod Extremes
