-- Proofs that calls share.
pub mod ClashMarks
pub mod Finishing
pub mod Heads
pub mod Hearing
pub mod Keeping
pub mod Uploading
pub mod Repeating
