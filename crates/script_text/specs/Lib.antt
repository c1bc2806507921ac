pub mod Faults
pub mod Words
pub mod Asking
pub mod Commands
pub mod Lines
pub mod Printed
pub mod Reading
pub mod model
