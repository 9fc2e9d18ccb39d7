pub mod Plans
pub mod Answering
pub mod Jobs
pub mod Served
pub mod Serving
pub mod Taking
