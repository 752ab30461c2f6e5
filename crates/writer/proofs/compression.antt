-- Laws that belong to no one function. For callers: Written (what a name that was written is), AsSaid (that it is cut as the specification says), Places.
mod Search
pub mod ByLabels
pub mod Places
pub mod ReadBack
pub mod AsSaid
pub mod Written
