pub mod Handling
pub mod Putting
pub mod Staying
pub mod Tidying
