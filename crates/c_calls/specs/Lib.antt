-- The definitions that contracts of the calls cite.
pub mod Answers
pub mod Codes
pub mod Exchanges
pub mod Halves
pub mod Kept
pub mod Messages
pub mod Outcomes
pub mod Programs
pub mod Queries
pub mod Rows
pub mod Sides
pub mod laws
