pub mod Own
pub mod Sets
