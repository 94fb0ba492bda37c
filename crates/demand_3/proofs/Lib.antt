pub mod Runs
pub mod Built
pub mod Counts
pub mod Limit
pub mod Lengths
pub mod Attempts
mod Shortest
pub mod Moments
pub mod Krylov
pub mod Products
pub mod Taylor
pub mod Start
pub mod Never23
pub mod Demand3
pub mod Orders
