-- The definitions that this crate's contracts cite: a TXT's strings and pairs, and the lookup over two TXTs.
pub mod Txt
pub mod Lookup
