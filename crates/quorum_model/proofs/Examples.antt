-- Crashes, acknowledgements, growth and calm runs, computed.
pub mod Calm
pub mod Crashes
pub mod Growing
