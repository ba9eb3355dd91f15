mod Running
mod Steps
mod Beginnings
pub mod Crashes
mod Opened
mod Texts
