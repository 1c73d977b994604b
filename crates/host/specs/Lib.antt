pub mod Report
pub mod Examples
pub mod Promises
