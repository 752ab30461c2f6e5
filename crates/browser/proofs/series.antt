pub mod Gaps
pub mod Spaced
