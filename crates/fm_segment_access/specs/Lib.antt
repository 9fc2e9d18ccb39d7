pub mod Alone
pub mod Found
pub mod Learnt
pub mod Pieces
pub mod Ranges
pub mod Runs
pub mod Values
