pub mod domains
pub mod questions
pub mod records
pub mod laws
