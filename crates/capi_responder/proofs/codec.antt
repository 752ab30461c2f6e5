-- Laws that belong to no one function.
pub mod Wide
pub mod Parts
pub mod Lengths
pub mod Stands
pub mod Multicast
pub mod Held
pub mod Round
pub mod Front
pub mod Whole
pub mod Encoded
