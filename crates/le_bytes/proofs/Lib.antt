pub mod Patterns
pub mod Over
pub mod Unchanged
pub mod Counts
pub mod Fronts
pub mod Written
