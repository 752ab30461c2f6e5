-- Laws that belong to no one function. For callers: Bytes (equality of bytes), Views (the bytes of rdata, wherever they lie).
pub mod Bytes
pub mod Views
