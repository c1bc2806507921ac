pub mod Codings
pub mod Orders
