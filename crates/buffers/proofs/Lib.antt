pub mod Calls
pub mod Chosen
pub mod Oldest
pub mod Order
pub mod Puts
pub mod Rows
pub mod Stores
