pub mod Answers
pub mod entries
pub mod records
pub mod lookup
pub mod laws
