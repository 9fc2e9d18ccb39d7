pub mod Grammar
pub mod Laws
pub mod Lists
pub mod Parsed
pub mod Plan
pub mod Read
pub mod Reader
pub mod Records
