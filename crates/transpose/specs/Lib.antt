pub mod Transpose
