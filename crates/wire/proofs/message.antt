-- Laws that belong to no one function. For callers: Walk (walking a section of any layout), Cursor (a section that has been read is a list),
-- Refused (which test refuses a message).
pub mod Fields
pub mod Ends
pub mod Sections
pub mod Cursor
pub mod Walk
pub mod Refused
