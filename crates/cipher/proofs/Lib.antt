pub mod Picks
pub mod Substitution
pub mod Exchanges
pub mod Walks
pub mod Determined
