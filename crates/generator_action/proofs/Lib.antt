pub mod Quotients
pub mod Leading
pub mod Ways
pub mod Answered
pub mod Norm
pub mod LargestRow
pub mod Examples
