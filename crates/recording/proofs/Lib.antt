pub mod Accepting
pub mod Adding
pub mod Following
pub mod Judging
pub mod Layouts
pub mod Lengths
pub mod Moving
pub mod Placing
