pub mod Endings
pub mod Headings
pub mod Line
pub mod Services
pub mod Compacting
pub mod Wishes
