-- Laws that belong to no one function.
pub mod Forms
pub mod Contents
pub mod Lying
pub mod Numbers
