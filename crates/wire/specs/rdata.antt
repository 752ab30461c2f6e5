pub mod Rdata
pub mod Readers
pub mod Answers
pub mod Restricted
