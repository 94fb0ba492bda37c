pub mod Few
pub mod Turns
