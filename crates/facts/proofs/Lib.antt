-- Laws that belong to no one function.
mod Tests
mod Owned
mod Asked
mod Known
mod Responses
mod Said
mod Types
mod Steps
