pub mod Notices
pub mod Telling
pub mod Texts
pub mod Verdicts
