pub mod Windows
pub mod Parts
pub mod Sections
pub mod WholeFiles
pub mod HexDigits
