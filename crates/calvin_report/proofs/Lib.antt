pub mod ByPlace
mod FirstNotes
pub mod ReplyLines
pub mod NodeLines
pub mod Least
pub mod Told
pub mod Sent
pub mod Keyed
pub mod Serially
pub mod AllStanding
pub mod Kept
