pub mod Product
pub mod Run
pub mod Weights
pub mod Doubled
pub mod Tested
pub mod Examples
