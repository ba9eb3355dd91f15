pub mod Compactions
