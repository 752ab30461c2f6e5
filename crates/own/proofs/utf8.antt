-- Laws of what a screen can show. For callers: Grammar (it is RFC 3629's).
mod Bytes
mod Characters
pub mod Grammar
