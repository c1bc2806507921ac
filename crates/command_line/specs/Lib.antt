pub mod Names
pub mod Asked
pub mod Plain
pub mod model
