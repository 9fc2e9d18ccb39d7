pub mod Indices
pub mod Lines
pub mod Noted
pub mod Reached
pub mod Resolving
pub mod Stepping
pub mod Texts
pub mod Walked
