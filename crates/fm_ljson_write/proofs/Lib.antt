pub mod Again
pub mod Deep
pub mod Floats
pub mod Found
pub mod Maybe
pub mod Rest
