pub mod Drained
pub mod Joining
pub mod Offering
pub mod Oldest
pub mod Running
pub mod Tracking
pub mod Youngest
