-- Laws that belong to no one function.
mod Same
pub mod Equal
mod Letters
