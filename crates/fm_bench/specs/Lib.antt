pub mod Ready
pub mod Knowing
