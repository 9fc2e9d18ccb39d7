pub mod Sums
pub mod Places
pub mod Items
pub mod Moves
pub mod Settled
pub mod Batches
