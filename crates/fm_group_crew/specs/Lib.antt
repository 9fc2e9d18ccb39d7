pub mod Dealt
pub mod Tasks
pub mod Ends
pub mod Grouped
