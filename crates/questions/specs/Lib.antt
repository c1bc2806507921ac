pub mod Refusals
pub mod Judging
pub mod Sources
pub mod Lines
pub mod Details
pub mod CodeWords
pub mod ClashFields
