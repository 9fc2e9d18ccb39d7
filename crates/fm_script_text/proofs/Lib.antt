pub mod Answering
pub mod Arguments
pub mod Commands
pub mod Cuts
mod Examples
pub mod Keeping
pub mod Lines
pub mod Numbers
pub mod Once
pub mod Plain
pub mod Pools
pub mod Spelling
pub mod Taking
