pub mod Gathering
pub mod Planning
