-- What a combination is made of, and the checks of a job.
pub mod Combination
pub mod Checks
pub mod Call
