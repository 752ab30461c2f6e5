-- Laws that belong to no one function. For callers: Rest (a name piece by piece), Use, Extend, Plain, InPlace.
pub mod Rest
pub mod Walked
pub mod Compare
pub mod Whole
pub mod Use
pub mod Extend
pub mod Plain
pub mod InPlace
