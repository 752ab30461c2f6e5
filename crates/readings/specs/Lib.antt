pub mod Examples
pub mod Starred
pub mod States
pub mod Unicast
pub mod Subsets
pub mod Labels
pub mod Changes
pub mod Ttls
