pub mod Coding
pub mod Kind
pub mod Named
pub mod Value
