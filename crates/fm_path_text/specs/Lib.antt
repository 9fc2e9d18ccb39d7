pub mod Grammar
pub mod Language
pub mod Machine
pub mod Reader
