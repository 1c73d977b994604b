pub mod Characters
pub mod Laws
pub mod Numbers
pub mod Examples
