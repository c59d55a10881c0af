pub mod Curves
pub mod Rows
