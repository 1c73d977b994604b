pub mod Calls
pub mod Stored
pub mod Orders
pub mod Claims
