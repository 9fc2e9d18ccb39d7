pub mod Views
pub mod Alive
pub mod Texts
pub mod Living
pub mod Told
