-- Statements that other crates cite.
pub mod Walk
pub mod OneAnswer
