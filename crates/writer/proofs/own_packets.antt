-- Laws that belong to no one function.
pub mod Owned
pub mod Picking
pub mod Room
pub mod Answering
pub mod Plain
