pub mod Aiming
pub mod Seeing
pub mod Rows
pub mod Finding
pub mod Sees
pub mod Determined
