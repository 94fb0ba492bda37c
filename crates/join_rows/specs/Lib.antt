-- Rows of the two matrices of a join: whether their columns rise, how many entries they have together, and whether each sum is finite.
pub mod Inner
pub mod Join
