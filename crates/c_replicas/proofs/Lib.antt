-- Proofs that calls share.
pub mod Fronts
pub mod Making
pub mod Siding
