pub mod Allocating
pub mod Beside
pub mod Calls
pub mod Gathering
pub mod Lasting
pub mod Meeting
pub mod Open
pub mod Opening
pub mod Own
mod Pages
