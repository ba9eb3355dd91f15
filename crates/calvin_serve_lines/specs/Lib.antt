pub mod Asking
pub mod Epochs
pub mod Gathered
pub mod BatchJson
