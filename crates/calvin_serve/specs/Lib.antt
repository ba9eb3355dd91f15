pub mod Blame
pub mod Serving
pub mod Turns
