-- The definitions that this crate's contracts cite: records, the events that are read, the bytes that are written; and the trace of a list of events.
pub mod records
pub mod reading
pub mod writing
