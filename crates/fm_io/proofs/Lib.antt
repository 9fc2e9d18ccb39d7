pub mod Appended
pub mod Asked
pub mod Counting
pub mod Filled
pub mod Listed
pub mod Followed
pub mod Left
pub mod Sent
