pub mod Ends
pub mod Line
