pub mod Knowing
pub mod Laws
pub mod Reader
pub mod Rules
pub mod Scripts
pub mod Syntax
pub mod Taking
