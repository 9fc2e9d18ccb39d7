pub mod Crewing
pub mod Settling
pub mod Sharing
pub mod Trying
pub mod Weighing
pub mod Reading
pub mod Behind
