pub mod Series
pub mod Spacing
