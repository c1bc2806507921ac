pub mod Causes
pub mod Clusters
pub mod Faults
pub mod Healing
pub mod Healings
pub mod model
