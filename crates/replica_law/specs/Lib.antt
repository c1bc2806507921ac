pub mod Groups
pub mod Histories
pub mod Rules
pub mod laws
