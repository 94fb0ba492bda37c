-- Lists by index, windows of a list, and searches.
pub mod Loop
pub mod Window
pub mod Frame
pub mod Bounds
pub mod Find
pub mod Positions
pub mod Places
pub mod Greatest
pub mod Walk
