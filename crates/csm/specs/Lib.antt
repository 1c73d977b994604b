pub mod Format
pub mod Fields
pub mod Message
pub mod Covered
pub mod Claims
