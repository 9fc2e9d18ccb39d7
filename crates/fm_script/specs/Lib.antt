pub mod Alive
pub mod Mains
pub mod Players
pub mod Runs
pub mod Staying
