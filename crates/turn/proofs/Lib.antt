pub mod Acting
pub mod Answers
pub mod Ends
pub mod Loads
pub mod Ways
pub mod Determined
