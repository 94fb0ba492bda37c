pub mod Examples
pub mod Orders
pub mod Twice
pub mod Entries
pub mod Ways
pub mod Passed
pub mod Answer
