-- Laws of one record.
pub mod Whole
pub mod Standing
