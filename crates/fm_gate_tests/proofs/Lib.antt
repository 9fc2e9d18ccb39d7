pub mod Finishing
pub mod Holds
mod Nothing
