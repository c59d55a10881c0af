pub mod Row
pub mod Search
pub mod Closing
pub mod Opening
pub mod Links
