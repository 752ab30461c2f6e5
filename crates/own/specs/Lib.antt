pub mod records
pub mod utf8
pub mod changes
