pub mod UnderWay
pub mod Lent
pub mod Going
pub mod Lasting
pub mod Unlent
pub mod Waiting
pub mod Telling
