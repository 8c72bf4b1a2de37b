pub mod Blocking
pub mod Counting
pub mod Placing
pub mod Reaching
pub mod Turning
