pub mod Fronts
pub mod Examples
pub mod After
