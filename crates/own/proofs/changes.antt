-- Laws of changed data. For callers: Revised (what an update leaves as it was, what it changes, and which set-ups keep the rules).
pub mod Revised
