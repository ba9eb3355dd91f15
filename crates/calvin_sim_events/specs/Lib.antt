pub mod Quiet
pub mod Passes
