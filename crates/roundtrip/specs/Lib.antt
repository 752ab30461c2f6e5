pub mod Writable
pub mod Puts
pub mod PutCase
pub mod Composed
pub mod Statements
pub mod Cases
pub mod Goodbye
