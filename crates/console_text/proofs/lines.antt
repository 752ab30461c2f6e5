-- Laws that belong to no one function; Ranges is for callers too.
pub mod Ranges
mod Split
mod Digits
