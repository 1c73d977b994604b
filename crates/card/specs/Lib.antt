pub mod Over
pub mod Whole
pub mod Ways
pub mod Orders
pub mod Claims
