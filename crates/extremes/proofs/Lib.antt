pub mod Windows
pub mod Kept
