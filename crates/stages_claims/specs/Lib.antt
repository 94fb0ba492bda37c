-- What a soak in stages did, said by its single calls.
pub mod Ran
pub mod Bounds
pub mod Passing
pub mod Claims
pub mod Single
