pub mod Positions
pub mod Placing
