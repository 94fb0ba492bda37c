pub mod Trials
pub mod Memory
