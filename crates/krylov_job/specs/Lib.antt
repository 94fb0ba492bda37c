-- A Krylov job as its checks leave it: options, dimension, layout of the working memory, and what is refused before the first substep.
pub mod KrylovCall
pub mod Memory
pub mod Inner
