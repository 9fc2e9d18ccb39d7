pub mod Allocating
pub mod Getting
pub mod Rows
pub mod Setting
pub mod Slices
pub mod Texts
