pub mod Joins
pub mod ShortNumbers
