pub mod ServeLaws
pub mod CarryLaws
pub mod AnswerLaws
