-- What the exported functions on bytes and on paused runs hand back.
pub mod Replies
pub mod Inner
