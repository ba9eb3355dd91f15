pub mod Packets
pub mod Events
pub mod Runs
pub mod Round
pub mod Carried
pub mod Sent
pub mod Opened
pub mod Reached
