pub mod Facts
pub mod Questions
pub mod Found
pub mod Types
pub mod chains
pub mod probe
pub mod tiebreak
