pub mod Image
pub mod Places
pub mod Pass
pub mod Results
pub mod Examples
pub mod Claims
