mod Agreeing
pub mod OwnClashes
mod Told
