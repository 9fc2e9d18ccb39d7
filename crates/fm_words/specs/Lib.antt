pub mod Bits
pub mod Maps
pub mod Marks
pub mod Places
pub mod Sessions
pub mod Shapes
pub mod Within
