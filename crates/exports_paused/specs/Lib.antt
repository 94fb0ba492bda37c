-- What the exported functions on paused runs hand back.
pub mod Told
