pub mod Attacks
pub mod PathLaws
pub mod Paths
pub mod Tables
pub mod Texts
