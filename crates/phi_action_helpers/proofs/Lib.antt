pub mod Augmented
pub mod Counts
pub mod SingleTerm
pub mod Sweeps
