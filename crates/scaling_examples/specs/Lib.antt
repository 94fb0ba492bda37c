-- N9's condition in document 02's own words.
pub mod Words
