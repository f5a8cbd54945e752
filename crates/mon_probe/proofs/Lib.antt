pub mod BeginLaws
pub mod Known
pub mod ProbeLaws
