pub mod Laws
pub mod Listed
pub mod Listing
pub mod Moving
pub mod Noted
pub mod Resolution
pub mod Wide
