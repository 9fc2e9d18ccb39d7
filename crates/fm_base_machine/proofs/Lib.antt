pub mod Putting
pub mod Depicting
pub mod Handling
pub mod Handles
pub mod Allowing
pub mod GoingOn
