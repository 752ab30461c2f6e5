pub mod Setups
pub mod Records
