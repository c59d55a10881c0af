pub mod Number
pub mod Range
pub mod Set
pub mod Table
pub mod Walk
