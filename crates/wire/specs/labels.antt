pub mod Labels
pub mod Counted
