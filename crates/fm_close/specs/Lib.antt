pub mod Does
pub mod Learnt
pub mod CloseLaws
pub mod Sweeps
pub mod Handles
