pub mod Flat
pub mod Effects
