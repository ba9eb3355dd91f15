pub mod Growing
pub mod Engine
