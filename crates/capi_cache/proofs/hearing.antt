pub mod Shown
mod Answers
