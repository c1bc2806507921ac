pub mod Faults
pub mod Programs
pub mod Uploads
pub mod laws
pub mod model
