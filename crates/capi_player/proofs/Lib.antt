-- Laws that belong to no one function.
mod Same
mod Steps
