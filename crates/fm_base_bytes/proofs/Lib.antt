pub mod Bytes
pub mod Powers
pub mod Signed
pub mod Words
