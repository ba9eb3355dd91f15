pub mod Replies
pub mod Books
pub mod Receipts
pub mod Ran
pub mod Kept
