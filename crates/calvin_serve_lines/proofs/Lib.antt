pub mod Breaks
pub mod Objects
pub mod Depths
pub mod Lists
pub mod Gathers
pub mod Batches
pub mod Spells
pub mod Asks
