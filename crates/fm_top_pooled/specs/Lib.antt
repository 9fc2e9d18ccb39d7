pub mod Asking
pub mod Besides
pub mod Grouped
pub mod Pooled
pub mod Shown
pub mod Stocked
pub mod Tallied
pub mod Views
