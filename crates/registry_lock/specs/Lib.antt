pub mod Faults
pub mod Meeting
pub mod Telling
pub mod model
