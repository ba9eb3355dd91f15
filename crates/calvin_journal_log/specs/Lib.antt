pub mod Beginnings
pub mod Disks
pub mod Files
pub mod Memory
