pub mod Refresh
pub mod Once
