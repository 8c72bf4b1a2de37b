pub mod Fresh
pub mod OnlyRing
pub mod Pairs
pub mod Recordings
pub mod Rows
