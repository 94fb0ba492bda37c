pub mod Chosen
pub mod Ways
