-- Laws of writing.
pub mod Laid
pub mod Fitting
pub mod Turned
pub mod Answered
