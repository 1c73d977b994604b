pub mod Texts
pub mod Sealing
pub mod Lengths
pub mod Judging
pub mod Bodies
pub mod Claims
pub mod Determined
