pub mod Parity
pub mod Keys
pub mod Working
pub mod Mac
pub mod Iv
pub mod Numbers
pub mod Examples
pub mod Claims
