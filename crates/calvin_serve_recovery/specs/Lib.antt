pub mod Recovered
pub mod Beginnings
pub mod Runs
