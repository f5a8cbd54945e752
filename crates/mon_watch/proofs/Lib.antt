pub mod Calm
pub mod Histories
