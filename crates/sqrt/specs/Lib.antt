pub mod Sqrt
