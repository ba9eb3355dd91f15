pub mod Behind
pub mod EventReading
pub mod Members
