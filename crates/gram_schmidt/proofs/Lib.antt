pub mod GramSchmidt
pub mod Turns
pub mod Answers
pub mod Products
pub mod Long
pub mod Examples
