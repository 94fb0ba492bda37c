-- A new run on a unit.
pub mod Inner
