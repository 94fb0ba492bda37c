mod Known
pub mod Start
pub mod Standing
pub mod Stays
pub mod Plain
mod Zero
pub mod Early
mod Proposed
pub mod Steps
mod Pieces
mod Doubles
pub mod FirstNorm
pub mod Ended
pub mod Alike
pub mod Undivided
pub mod Limit27
pub mod Claim
pub mod Never23
pub mod Examples
