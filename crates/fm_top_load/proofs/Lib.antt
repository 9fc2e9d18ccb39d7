pub mod Alone
pub mod FileBytes
pub mod Following
pub mod GivenBytes
pub mod Grown
pub mod Growing
pub mod Holding
pub mod Loads
pub mod Lone
pub mod Machine
pub mod Placing
pub mod Portions
pub mod Puts
pub mod Rest
pub mod Telling
mod Texts
