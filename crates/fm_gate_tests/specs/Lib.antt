pub mod Holds
pub mod Ready
