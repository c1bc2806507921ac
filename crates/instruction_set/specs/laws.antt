-- Laws of the definitions.
pub mod FormTable
pub mod FormOf
pub mod OneInsn
pub mod Places
pub mod SameInsn
