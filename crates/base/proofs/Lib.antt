pub mod BoolLaws
pub mod CollectLaws
pub mod CountLaws
mod Examples
pub mod ListLaws
pub mod MemberLaws
pub mod NumberLaws
pub mod PartLaws
pub mod RangeLaws
pub mod SetLaws
pub mod TableLaws
pub mod WalkLaws
