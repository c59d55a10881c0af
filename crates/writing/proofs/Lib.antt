pub mod AnswerLaws
mod Examples
pub mod PutLaws
pub mod WriteLaws
