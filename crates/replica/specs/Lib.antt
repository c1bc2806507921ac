pub mod Codings
pub mod Faults
pub mod Halves
pub mod Histories
pub mod Messages
pub mod Nodes
pub mod Replicas
