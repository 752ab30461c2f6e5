pub mod Under
pub mod Domains
