pub mod Xor
pub mod Linear
pub mod Permutations
pub mod Laws
pub mod Parity
pub mod Blocks
pub mod Vectors
