pub mod Radio
pub mod Answer
pub mod Work
