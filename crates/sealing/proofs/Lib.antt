pub mod Ones
pub mod Determined
