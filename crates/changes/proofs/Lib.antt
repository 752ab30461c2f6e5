-- The theorems for callers: Goodbye (the goodbye of a stop is read as exactly the held records, with TTL 0), Sent (every packet of a run has the data of then,
-- and none the old ones after an update). Witness: calls to which they apply.
mod Right
pub mod Goodbye
pub mod Sent
pub mod Witness
