pub mod Leading
pub mod Telling
pub mod Passing
mod Looking
