-- Laws that belong to no one function. For callers: Refusing (the refusals of a table), Owners (what a lookup shows is right of the owner found).
pub mod Refusing
mod Looking
pub mod Owners
