mod Joins
pub mod Wrapped
mod Written
