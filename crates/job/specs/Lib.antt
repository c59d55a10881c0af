pub mod Limits
pub mod Tree
pub mod Bytes
pub mod Refusal
pub mod Read
pub mod Sums
pub mod Steps
