pub mod Sweeps
pub mod Plans
