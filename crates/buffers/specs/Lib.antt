pub mod Calls
pub mod KindLaws
pub mod Kinds
pub mod Laws
pub mod Lists
pub mod Theorems
pub mod Waits
