-- Laws of the definitions.
pub mod Mapped
pub mod Places
pub mod Refused
