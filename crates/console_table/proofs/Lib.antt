-- Laws that belong to no one function: what is lent of a table and of its store.
pub mod Lent
