-- Laws that belong to no one function.
mod Keys
mod Pairs
mod Values
mod Strings
mod Whole
mod Placed
mod Parts
mod Examples
pub mod ReadBack
pub mod Use
