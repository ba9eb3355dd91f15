pub mod Once
pub mod OnceExact
pub mod OnceLaws
pub mod ToldAgain
