pub mod Splits
mod Options
pub mod Reading
mod Headings
mod Additions
mod Beginnings
