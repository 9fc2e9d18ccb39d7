pub mod Blocks
pub mod Merging
pub mod One
pub mod Summing
pub mod Climbing
pub mod Ordering
pub mod Taking
pub mod Totals
