pub mod Statement
pub mod Plain
pub mod Witness
