-- The checks of a soak under a changing ambient level: of field, load and log.
pub mod Log
pub mod Inner
