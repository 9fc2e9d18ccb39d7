pub mod Sums
pub mod Places
pub mod Moves
pub mod Settled
