pub mod Headless
pub mod Packets
pub mod Filling
pub mod Composing
pub mod Small
pub mod Limits
pub mod Drafting
pub mod ReadBack
