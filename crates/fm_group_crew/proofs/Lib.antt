pub mod Tasks
pub mod Dealt
pub mod Visiting
pub mod AllRead
pub mod Concluding
pub mod Counted
pub mod Outcome
