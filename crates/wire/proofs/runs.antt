-- Laws that belong to no one function. For callers: Use.
mod InRuns
mod Into
pub mod Use
