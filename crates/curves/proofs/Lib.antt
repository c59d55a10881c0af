pub mod LowerLaws
pub mod UpperLaws
pub mod CurveEq
pub mod LeafLaws
pub mod RowLaws
pub mod LowerRowLaws
pub mod MidLaws
mod Examples
pub mod AllRowsLaws
