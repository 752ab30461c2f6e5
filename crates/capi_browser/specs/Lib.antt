pub mod Numbers
pub mod Labels
