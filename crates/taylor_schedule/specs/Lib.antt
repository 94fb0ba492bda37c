-- A Taylor job as its checks leave it: the row of the schedule, and the need of memory.
pub mod Inner
