pub mod Agreeing
pub mod Built
pub mod Faulty
pub mod Rows
pub mod Said
pub mod Sorts
pub mod Taken
pub mod Turns
