pub mod Responder
pub mod Tiebreak
pub mod Statement
pub mod Rules
pub mod Example
pub mod Updating
pub mod Joining
pub mod Contending
