mod Anew
mod Breaks
mod Left
mod Orders
mod Sessions
mod Words
