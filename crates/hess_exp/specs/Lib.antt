pub mod HessExp
pub mod Parts
