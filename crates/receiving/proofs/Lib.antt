pub mod Dates
pub mod Reading
pub mod Faults
pub mod Opening
pub mod Turning
pub mod Replying
pub mod Answering
pub mod Determined
