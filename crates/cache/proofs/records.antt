-- Laws that belong to no one function. For callers: Whole (of a record that is whole the tests are those on what it shows), Seeking (a search of a table,
-- an entry at a time), Rules (what one record makes of the cache).
mod Tests
pub mod Whole
pub mod Seeking
pub mod Rules
