pub mod Chains
pub mod Laws
pub mod Placing
pub mod Rings
pub mod Sorting
