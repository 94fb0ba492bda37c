pub mod Squares
pub mod Whole
pub mod Near
pub mod Sandwich
pub mod Library
pub mod Examples
