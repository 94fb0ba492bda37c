pub mod Reasons
pub mod First
