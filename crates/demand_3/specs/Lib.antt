-- What whole runs do, and the claim about them.
pub mod Trace
pub mod Krylov
pub mod Products
pub mod Taylor
pub mod Demand3
