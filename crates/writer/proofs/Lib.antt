-- Laws that belong to no one function.
pub mod Runs
pub mod Starts
pub mod Cutting
pub mod Rdata
pub mod Parts
pub mod Fitting
pub mod Use
