pub mod Query
pub mod Drafts
pub mod Says
