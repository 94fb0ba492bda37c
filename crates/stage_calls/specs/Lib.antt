-- One stage of a soak in stages: the single call that it is.
pub mod Stages
pub mod Inner
