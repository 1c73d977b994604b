pub mod Tables
pub mod Dea
pub mod Chain
pub mod Claims
