mod Feeds
pub mod Parts
pub mod Pieces
pub mod Silences
pub mod Triples
