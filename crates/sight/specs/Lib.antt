pub mod Aim
pub mod Asked
pub mod Table
pub mod Sight
