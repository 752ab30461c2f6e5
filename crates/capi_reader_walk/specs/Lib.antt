pub mod Walked
pub mod Parts
