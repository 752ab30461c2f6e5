-- Laws that belong to no one function. For callers: Single (one entry), Searches (a table, an entry at a time), Shape (what the rules leave as it is).
pub mod Single
pub mod Searches
pub mod Shape
