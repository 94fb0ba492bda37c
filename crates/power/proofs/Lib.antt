pub mod Cases
pub mod Roots
pub mod Bracket
