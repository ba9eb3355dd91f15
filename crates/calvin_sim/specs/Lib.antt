pub mod Simulations
pub mod Sequencers
pub mod Telling
pub mod Engine
