pub mod Report
pub mod Acts
pub mod Claims
