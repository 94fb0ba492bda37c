-- The schedule of a soak in stages, and the check of its lists.
pub mod Schedule
pub mod Inner
