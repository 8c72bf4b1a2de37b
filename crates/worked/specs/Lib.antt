pub mod Recorded
pub mod Table
