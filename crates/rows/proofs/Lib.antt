pub mod SearchLaws
pub mod ClosingLaws
pub mod SplitLaws
pub mod OpeningLaws
