pub mod Codes
pub mod Deeds
pub mod Groups
