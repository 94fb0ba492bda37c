-- A sparse matrix by rows, what its rows sum to and multiply to, the checks of it, and how far a row's product can be off.
pub mod Csr
pub mod Matrix
pub mod Checks
pub mod RowError
