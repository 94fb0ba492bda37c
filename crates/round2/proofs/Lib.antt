pub mod Powers
pub mod Table
pub mod Positive
