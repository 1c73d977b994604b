pub mod Exchange
pub mod Cards
pub mod Runs
pub mod Late
pub mod Asked
