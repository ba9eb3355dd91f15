pub mod Added
mod Numerals
pub mod Subcommands
