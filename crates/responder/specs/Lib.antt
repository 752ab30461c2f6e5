pub mod Handed
pub mod Refusals
pub mod Calls
pub mod changes
pub mod Causes
pub mod Runs
pub mod Data
pub mod address
