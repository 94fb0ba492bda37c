pub mod Single
pub mod Reached
pub mod Answers
pub mod Slices
pub mod Memory
pub mod Numbers
pub mod Examples
