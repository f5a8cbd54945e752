pub mod Message
pub mod Phases
