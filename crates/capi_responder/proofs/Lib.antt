-- Laws that belong to no one function.
pub mod States
pub mod Starting
pub mod Renewing
pub mod Calling
pub mod Idling
