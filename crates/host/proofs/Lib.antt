pub mod Examples
pub mod Telling
pub mod Determined
