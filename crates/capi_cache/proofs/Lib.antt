-- Laws that belong to no one function: the lists and numbers that the proofs rest on.
mod Mixed
pub mod Scan
mod Looking
mod Changes
mod Types
mod Flushing
mod Moving
mod Taking
