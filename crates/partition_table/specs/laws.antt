pub mod FourWords
pub mod Sameness
