pub mod Views
pub mod Passes
pub mod Beginning
pub mod Draws
pub mod Finishing
pub mod GivenBytes
pub mod Acts
pub mod Placing
