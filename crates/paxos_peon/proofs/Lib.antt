pub mod AnswerLaws
pub mod CollectLaws
pub mod HearLaws
pub mod LeaseLaws
pub mod Ours
pub mod ValueLaws
