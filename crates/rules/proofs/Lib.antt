pub mod Spacing
pub mod Determined
