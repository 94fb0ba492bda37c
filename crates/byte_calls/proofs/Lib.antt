pub mod Jobs
pub mod Calls
