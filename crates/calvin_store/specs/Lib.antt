pub mod Held
pub mod HeldLaws
pub mod Kept
pub mod Points
pub mod Tiers
pub mod Versions
