pub mod Sides
pub mod Copies
pub mod Learnt
pub mod Comparisons
pub mod Alone
