pub mod Items
pub mod Fit
pub mod Writer
pub mod compression
pub mod own_packets
