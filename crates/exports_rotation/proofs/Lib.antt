pub mod Units
pub mod Calls
pub mod Slices
