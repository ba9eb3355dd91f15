mod Spells
mod Lines
