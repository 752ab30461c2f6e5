-- Laws that belong to no one function. For callers: Blocks (what a window block is).
pub mod Blocks
