pub mod Firsts
pub mod Loads
pub mod Reading
