pub mod Checks
pub mod Cuts
