pub mod Longer
pub mod Listed
pub mod SignedWords
