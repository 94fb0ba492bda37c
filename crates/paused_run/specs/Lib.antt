-- A Krylov run that is paused after its start and after each substep.
pub mod Paused
pub mod Inner
