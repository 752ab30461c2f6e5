pub mod Packets
pub mod Styles
pub mod Own
pub mod Ready
pub mod Goodbye
