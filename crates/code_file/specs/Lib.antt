pub mod Objects
pub mod CodeFiles
pub mod Files
