pub mod Listing
pub mod Shows
