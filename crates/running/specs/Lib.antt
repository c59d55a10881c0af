pub mod Running
pub mod Work
