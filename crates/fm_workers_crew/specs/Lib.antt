pub mod Again
pub mod Beside
pub mod Crew
pub mod Rounds
pub mod Then
