pub mod Later
pub mod Lists
pub mod Counts
