pub mod Numbers
pub mod Layout
pub mod Parts
pub mod Codec
