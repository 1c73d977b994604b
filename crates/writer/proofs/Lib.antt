pub mod Numerals
pub mod Letters
pub mod Determined
