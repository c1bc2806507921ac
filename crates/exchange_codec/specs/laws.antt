-- Laws of the definitions.
pub mod Fields
pub mod Names
pub mod Many
pub mod Rows
pub mod Tables
pub mod Programs
pub mod Code
pub mod Decoding
pub mod Firsts
