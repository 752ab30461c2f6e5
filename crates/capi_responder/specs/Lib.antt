pub mod Exported
pub mod codec
pub mod encoder
pub mod idle
pub mod setup_test
pub mod state
