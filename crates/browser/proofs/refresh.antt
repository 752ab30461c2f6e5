pub mod Soonest
pub mod Thresholds
pub mod Due
pub mod Next
pub mod Once
