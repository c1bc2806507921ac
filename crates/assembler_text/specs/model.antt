pub mod Words
pub mod Mnemonics
pub mod Reading
pub mod Operands
pub mod Lines
pub mod Texts
