pub mod Message
pub mod Layout
pub mod Places
pub mod Readable
pub mod Refusals
