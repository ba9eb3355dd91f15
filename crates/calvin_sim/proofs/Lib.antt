pub mod Leading
pub mod Opened
pub mod Submitted
pub mod Rooms
pub mod Taken
pub mod Runs
