pub mod Follow
pub mod Found
pub mod Places
pub mod Steady
pub mod Walk
