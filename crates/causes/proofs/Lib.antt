-- The theorems for callers: Exactly (a record asked for is left out exactly for a cause of the specification), Plain (the same of replies to plain resolvers),
-- Answered (what a tick sends for a held query).
pub mod Exactly
pub mod Plain
pub mod Answered
pub mod Witness
