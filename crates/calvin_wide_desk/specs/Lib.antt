pub mod Receipts
pub mod Stopping
