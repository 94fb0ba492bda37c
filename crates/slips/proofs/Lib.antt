pub mod Breakdown
