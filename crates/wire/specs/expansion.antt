pub mod Equal
pub mod Opened
