pub mod Rules
pub mod Answer
pub mod Work
