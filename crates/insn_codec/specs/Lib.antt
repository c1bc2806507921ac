pub mod Encoding
pub mod Faults
pub mod Rows
pub mod model
