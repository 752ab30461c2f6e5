-- Theorems: Whole, Puts (with PutCase, calls to which it applies), Composed, OwnPackets, Goodbye, Cases. What they are made of: Names, Sound, Records, Questions, Lists.
mod Names
pub mod Sound
mod Records
mod Questions
pub mod Lists
pub mod Whole
pub mod Puts
pub mod Composed
pub mod OwnPackets
pub mod Goodbye
pub mod Cases
pub mod PutCase
