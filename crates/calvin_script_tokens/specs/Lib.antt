pub mod Names
pub mod Spelled
pub mod Gathered
