-- Laws of a tick with nothing due. For callers: Resting (what is known of a state's bytes that are at rest).
pub mod Bytes
pub mod Tests
pub mod Cases
pub mod Unheld
pub mod Resting
