-- What is claimed of several barrels on one unit.
pub mod History
pub mod Isolation
pub mod Order
pub mod Admission
pub mod Claim
