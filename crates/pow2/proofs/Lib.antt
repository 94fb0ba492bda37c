pub mod Integers
pub mod Powers
pub mod Rounded
pub mod Leading
pub mod Toward
pub mod Largest
pub mod Examples
pub mod Scaled
