pub mod Taylor
pub mod Krylov
