-- The plan of a Taylor job alone, and what it tells of the run.
pub mod TaylorPlan
pub mod Inner
pub mod Ahead
