pub mod Face
pub mod Terms
pub mod Hosts
pub mod Demands
