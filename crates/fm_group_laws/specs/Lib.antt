pub mod Shares
pub mod Standing
pub mod Touching
pub mod Laws
