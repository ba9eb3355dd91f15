pub mod Histories
pub mod Positions
pub mod Assembling
pub mod Locked
