pub mod Replies
pub mod Reports
pub mod FirstPut
pub mod SoFar
pub mod Notes
