pub mod Known
pub mod Plans
