pub mod Rows
pub mod InPlace
