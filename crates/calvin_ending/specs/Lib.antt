pub mod Statuses
pub mod Telling
