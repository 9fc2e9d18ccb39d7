pub mod Values
pub mod Order
pub mod Table
pub mod Counting
pub mod Reading
pub mod Asked
pub mod Learnt
