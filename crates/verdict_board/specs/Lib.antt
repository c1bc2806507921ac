pub mod Draws
pub mod Boards
pub mod Views
pub mod model
pub mod laws
