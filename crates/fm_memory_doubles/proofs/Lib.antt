pub mod Hearing
pub mod Zero
pub mod Going
pub mod Calling
pub mod Beside
pub mod Passing
