pub mod Healed
pub mod Narrated
pub mod Machines
pub mod Replies
pub mod Steps
pub mod Runs
pub mod model
