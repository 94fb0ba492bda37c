-- One record of a soak under a changing ambient level.
pub mod Record
pub mod Inner
