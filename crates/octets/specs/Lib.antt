pub mod Text
pub mod Part
pub mod Number
pub mod Codec
pub mod Wrote
pub mod First
pub mod One
