pub mod Store
pub mod Run
