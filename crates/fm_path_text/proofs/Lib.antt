pub mod Accepting
pub mod Language
pub mod Machine
pub mod Moves
pub mod Names
pub mod Parsing
pub mod Reading
