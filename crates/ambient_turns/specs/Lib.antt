-- What the answer of a record leaves, and the results of a log.
pub mod Ambient
pub mod Inner
