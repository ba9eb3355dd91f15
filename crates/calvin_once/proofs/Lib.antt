mod Again
mod Inner
mod LastKeys
mod Lifted
