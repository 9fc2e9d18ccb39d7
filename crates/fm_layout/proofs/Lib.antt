pub mod Names
pub mod Refused
pub mod Sound
pub mod Groups
pub mod Indexed
pub mod Deep
pub mod Nodes
pub mod Whole
