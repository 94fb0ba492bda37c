-- Laws of the definitions, and worked examples.
pub mod Laws
pub mod Examples
