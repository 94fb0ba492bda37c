-- What the exports on bytes share: which jobs are large, and slices cut to the local arrays.
pub mod Large
pub mod Inner
