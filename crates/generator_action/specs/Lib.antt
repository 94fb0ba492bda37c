pub mod Mass
pub mod Generator
pub mod Answer
pub mod Known
