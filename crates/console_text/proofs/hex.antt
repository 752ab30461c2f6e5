-- Laws that belong to no one function. For callers: Back, that what is shown reads back, and Room, what a buffer holds of a field.
mod Hex
mod Pairs
mod Filled
mod Spelled
pub mod Back
pub mod Room
