-- Waiting: what `next_due` promises a caller that waits.
pub mod Waiting
