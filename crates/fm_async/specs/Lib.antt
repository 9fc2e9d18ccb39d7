pub mod Visits
pub mod Closers
pub mod Starts
pub mod Borrows
pub mod Ends
pub mod Sets
pub mod Polls
