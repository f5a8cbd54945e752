pub mod Draws
pub mod Made
pub use Rattle.schedule_text.specs.Schedule
pub use Rattle.schedule_text.specs.Encoding
