pub mod Ran
pub mod Answered
pub mod Asks
pub mod Beginning
pub mod Decisions
pub mod Proposals
pub mod Settling
pub mod Merges
