pub mod Canonical
pub mod Groups
pub mod Limits
pub mod Putting
