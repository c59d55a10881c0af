pub mod Pace
pub mod Work
pub mod Since
