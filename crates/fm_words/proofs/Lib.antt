pub mod Clearing
pub mod Maps
pub mod Marks
pub mod Sessions
pub mod Shifts
pub mod Tables
