pub mod Refusing
pub mod Closing
pub mod Meeting
pub mod Rounds
