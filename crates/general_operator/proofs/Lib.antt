pub mod Sound
pub mod Rows
pub mod RowError
pub mod Examples
