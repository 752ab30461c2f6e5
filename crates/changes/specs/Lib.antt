pub mod Statement
pub mod Witness
