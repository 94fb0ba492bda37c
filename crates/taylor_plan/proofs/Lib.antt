pub mod Plans
pub mod Ahead
