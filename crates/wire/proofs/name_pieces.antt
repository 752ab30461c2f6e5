-- Laws for callers: which tests say which piece stands at a place, and back.
pub mod Pieces
