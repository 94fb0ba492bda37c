pub mod Tries
pub mod Few
pub mod Coefficients
pub mod Error
