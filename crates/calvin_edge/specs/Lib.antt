pub mod Answering
pub mod Complaints
pub mod Devices
pub mod Tallies
