mod Reading
mod Requests
mod Settling
mod Steps
mod Taking
mod Turning
