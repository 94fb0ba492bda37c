-- What the exported functions on a unit hand back.
pub mod Told
pub mod Slices
