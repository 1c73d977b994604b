pub mod Seen
pub mod Steps
