mod Bounds
mod Parts
mod Scripts
