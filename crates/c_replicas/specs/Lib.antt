-- The definitions that contracts of the calls cite.
pub mod Edits
pub mod Exchanges
pub mod Following
pub mod Logs
pub mod Positions
