pub mod Among
pub mod Each
pub mod Mapped
pub mod Ranges
