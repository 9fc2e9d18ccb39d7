pub mod Double
pub mod Heard
pub mod Beside
