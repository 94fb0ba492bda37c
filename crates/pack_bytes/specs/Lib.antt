-- Numbers and doubles as bytes, element by element.
pub mod Elements
