pub mod Name
pub mod Orders
pub mod Record
pub mod Registrations
pub mod Texts
pub mod laws
pub mod model
