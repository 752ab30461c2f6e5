pub mod lines
pub mod fields
pub mod hex
pub mod scan
