-- Laws that belong to no one function. For callers: Encoded, Counted (label by label), Numbers (what the two numbers of a name are).
pub mod Encoded
pub mod Counted
pub mod Numbers
mod Witnesses
