-- The definitions that this crate's contracts cite: what a line makes of the console's responder and of its out buffer.
pub mod Forms
pub mod Lines
