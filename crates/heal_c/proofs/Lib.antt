-- Proofs that the handles share.
pub mod Explaining
pub mod Heading
pub mod MessageWords
pub mod OutcomeWords
pub mod Processes
pub mod ProgramWords
pub mod ReplicaWords
pub mod SandboxWords
pub mod SideWords
pub mod Told
