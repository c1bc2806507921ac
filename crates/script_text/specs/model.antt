pub mod Buffers
pub mod Feeds
pub mod Parts
pub mod Triples
