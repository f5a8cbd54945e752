pub mod ChunkLaws
pub mod CookieLaws
pub mod EnterLaws
pub mod HearLaws
pub mod Planned
pub mod ReplayLaws
