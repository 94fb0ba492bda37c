pub mod Counts
pub mod Further
pub mod Ends
pub mod Range
pub mod Cleared
