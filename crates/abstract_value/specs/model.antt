-- Definitions that mirror the code.
pub mod Halves
pub mod NormalForms
