pub mod Access
pub mod Alone
pub mod Causes
pub mod Checking
pub mod Exits
pub mod Learning
