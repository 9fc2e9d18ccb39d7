pub mod Finding
pub mod Handling
