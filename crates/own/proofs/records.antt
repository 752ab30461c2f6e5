-- Laws that belong to no one function. For callers: Valid (what a set-up that keeps the rules has), Apart (no two own records have
-- one owner and type).
pub mod Arrays
pub mod Laying
pub mod Valid
pub mod Apart
