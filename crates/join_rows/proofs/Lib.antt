pub mod Values
pub mod Row
pub mod Steps
pub mod Passes
pub mod Order
