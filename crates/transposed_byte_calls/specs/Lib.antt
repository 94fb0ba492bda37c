-- What the exported functions on bytes and on the transposed matrix hand back.
pub mod Replies
pub mod Inner
