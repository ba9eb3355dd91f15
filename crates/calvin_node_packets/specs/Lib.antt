pub mod Packets
pub mod Letters
pub mod Keeping
pub mod Sendings
