pub mod Chunks
pub mod Shapes
pub mod Steps
pub mod Ahead
pub mod Shown
pub mod Gone
