pub mod Blanks
pub mod Requests
pub mod Runs
pub mod Scouts
pub mod Texts
