pub mod Rows
pub mod Admitted
pub mod Stored
