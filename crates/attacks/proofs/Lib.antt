pub mod Chained
pub mod Complete
pub mod Made
pub mod Single
pub mod Writing
