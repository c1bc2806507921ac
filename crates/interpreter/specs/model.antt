-- Definitions that mirror the code.
pub mod Room
