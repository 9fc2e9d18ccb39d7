pub mod Histories
pub mod Lines
pub mod Replies
pub mod Reports
pub mod Slots
pub mod Openings
