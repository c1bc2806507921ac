-- Laws of the definitions.
pub mod Places
