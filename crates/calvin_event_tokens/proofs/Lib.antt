pub mod Numbers
pub mod Acts
pub mod Events
pub mod Apps
pub mod Held
pub mod Whole
