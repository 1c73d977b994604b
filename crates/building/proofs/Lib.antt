pub mod Chosen
pub mod Judging
pub mod Wording
pub mod Determined
