-- The augmented operator [tau G, W; 0, J], and a product with it.
pub mod Augmented
pub mod Sweeps
pub mod Laid
