pub mod Cases
pub mod Codes
pub mod Deeds
pub mod MessageCodes
pub mod Quorums
pub mod Roles
pub mod States
pub mod ProposalLaws
