pub mod Makers
pub mod Claims
pub mod Maps
pub mod Provides
pub mod Covers
pub mod Gives
pub mod Places
