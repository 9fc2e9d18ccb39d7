pub mod Acts
pub mod Handles
pub mod Learnt
pub mod Runs
pub mod Values
pub mod Visiting
pub mod Within
