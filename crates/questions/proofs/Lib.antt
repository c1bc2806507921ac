pub mod Wrongs
pub mod Readings
pub mod Decoded
pub mod CodeWords
