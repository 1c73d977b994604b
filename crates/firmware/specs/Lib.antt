pub mod Promises
pub mod Firmware
