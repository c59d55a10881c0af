pub mod Tree
pub mod Choice
pub mod Row
pub mod Plan
pub mod Rates
pub mod Newton
pub mod Lists
