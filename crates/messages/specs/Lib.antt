pub mod Readings
pub mod Answers
pub mod Parts
pub mod Claims
