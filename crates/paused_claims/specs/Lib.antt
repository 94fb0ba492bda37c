-- Paused runs as they are left, and the claims about them.
pub mod History
pub mod Start
pub mod Stays
pub mod Early
pub mod Steps
pub mod Ended
pub mod Alike
pub mod Undivided
pub mod Claim
