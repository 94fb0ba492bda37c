-- What a job takes from the transposed generator.
pub mod Inner
