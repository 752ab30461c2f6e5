pub mod Service
pub mod Sound
