pub mod Result
