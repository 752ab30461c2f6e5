pub mod Compression
pub mod Sentence
