pub mod Counted
pub mod Rows
pub mod Least
pub mod Examples
