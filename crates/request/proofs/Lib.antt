pub mod Names
pub mod Examples
pub mod Determined
