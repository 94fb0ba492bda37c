-- One row, and four rows side by side, of the product with a small Hessenberg matrix that is stored by columns.
pub mod HessProduct
pub mod Parts
