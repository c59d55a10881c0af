pub mod RoundLaws
pub mod StoreLaws
pub mod StretchLaws
pub mod CountLaws
pub mod CallLaws
pub mod RunLaws
pub mod ReachLaws
mod Examples
