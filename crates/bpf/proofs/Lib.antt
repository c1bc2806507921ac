pub mod Instructions
pub mod Fronts
pub mod Runs
pub mod Loop
