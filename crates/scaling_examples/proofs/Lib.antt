pub mod Boundary
pub mod Pairs
