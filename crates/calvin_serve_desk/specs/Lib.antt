pub mod Desks
pub mod Epochs
