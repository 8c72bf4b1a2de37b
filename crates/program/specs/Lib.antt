pub mod Operations
pub mod Programs
pub mod Ranges
pub mod Texts
