pub mod Entries
pub mod Passing
pub mod Theorems
pub mod Examples
pub mod Orders
