pub mod Refusals
pub mod Numbers
pub mod Sections
pub mod Types
pub mod Numbered
pub mod hearing
