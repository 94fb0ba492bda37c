pub mod First
pub mod Numbers
