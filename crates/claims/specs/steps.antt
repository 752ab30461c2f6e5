pub mod Steps
pub mod Tick
