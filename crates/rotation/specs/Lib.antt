-- Several barrels on one unit.
pub mod Unit
pub mod Inner
