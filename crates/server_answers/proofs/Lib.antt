pub mod SafeAnswers
pub mod AnswerLaws
