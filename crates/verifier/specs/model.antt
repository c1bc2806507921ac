-- Definitions that mirror the code.
pub mod Accesses
pub mod Edges
pub mod Flow
pub mod Pending
pub mod Values
