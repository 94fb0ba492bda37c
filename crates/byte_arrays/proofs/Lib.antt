pub mod Alike
pub mod Parts
pub mod Bytes
pub mod Cuts
pub mod Forward
