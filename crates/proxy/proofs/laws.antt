-- Laws of the definitions, and the theorems of specs/laws.
pub mod Suffixes
pub mod Mapping
pub mod Passes
pub mod Wholes
mod Witnesses
