pub mod Agreeing
pub mod Faults
pub mod Forms
pub mod Progress
