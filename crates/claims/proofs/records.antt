-- Laws of sets of records. For callers: Filled (a flag for each record, one after the other), Sets (what a set has), Searched (a list searched element by
-- element).
pub mod Filled
pub mod Sets
pub mod Searched
