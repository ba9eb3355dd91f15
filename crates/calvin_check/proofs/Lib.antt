mod Steps
mod Telling
pub mod Told
