pub mod Opened
pub mod Counts
pub mod Own
pub mod Left
pub mod Claims
