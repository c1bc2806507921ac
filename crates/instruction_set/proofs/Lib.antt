mod WordsFit
mod SignedDivision
pub mod Laying
pub mod OpcodeRows
pub mod SameSlots
