pub mod Date
pub mod Numbers
