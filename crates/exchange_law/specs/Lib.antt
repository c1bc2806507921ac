pub mod Sides
pub mod Calls
pub mod Worlds
pub mod Steps
pub mod History
pub mod Lists
pub mod laws
