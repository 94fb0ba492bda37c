-- The end of a substep: the field at the accepted length, the counts, and the length proposed next.
pub mod Run
pub mod Memory
