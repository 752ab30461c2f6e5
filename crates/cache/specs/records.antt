pub mod Heard
pub mod Taking
