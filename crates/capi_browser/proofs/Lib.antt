-- Laws that belong to no one function: what the covered steps give, and that a state in numbers says its browser.
mod Told
pub mod Back
