-- Laws that belong to no one function.
mod Notes
mod Reached
mod Rdata
