pub mod TestLaws
pub mod StepLaws
pub mod RunLaws
pub mod AnswerLaws
