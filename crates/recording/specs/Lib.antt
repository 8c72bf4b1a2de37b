pub mod Accepted
pub mod Layout
pub mod Meaning
pub mod Readback
pub mod Steps
pub mod Texts
pub mod Unprinted
pub mod Verdicts
