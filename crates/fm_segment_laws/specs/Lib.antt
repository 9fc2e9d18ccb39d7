pub mod Accesses
pub mod Handles
