pub mod Access
pub mod Acts
pub mod Alone
pub mod Causes
pub mod Learnt
pub mod Place
pub mod Touched
