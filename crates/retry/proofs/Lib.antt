pub mod Shorter
pub mod Length
