pub mod Answering
pub mod Obeying
pub mod Words
