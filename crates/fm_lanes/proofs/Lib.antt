pub mod Lanes
pub mod Masks
pub mod Meaning
pub mod Naming
pub mod Reading
pub mod Turning
