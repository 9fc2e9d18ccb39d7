mod Behind
mod Found
pub mod OnePlan
mod Planned
