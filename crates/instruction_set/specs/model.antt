-- Definitions that mirror the code.
pub mod Layout
