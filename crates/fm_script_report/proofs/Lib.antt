pub mod Joining
pub mod Telling
pub mod Living
