pub mod Rates
pub mod Answer
pub mod Work
pub mod Starred
