pub mod Agreement
pub mod Calls
pub mod Data
pub mod Joins
pub mod Theorems
