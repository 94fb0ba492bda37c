pub mod Chain
pub mod Full
pub mod Calls
