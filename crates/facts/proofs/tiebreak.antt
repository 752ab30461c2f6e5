-- Laws that belong to no one function. For callers: Orders (the comparisons are total orders), Sorting (sorted lists), Ties (the laws of the
-- tiebreak), Lists (the list of a message), Corner (the specification's probe).
pub mod Orders
pub mod Sorting
pub mod Ties
mod Counting
mod Turns
pub mod Lists
pub mod Corner
