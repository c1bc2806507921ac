pub mod Faults
pub mod Words
pub mod Text
pub mod Grammar
pub mod Refusals
pub mod model
