pub mod Copies
pub mod Forwards
pub mod Leaving
pub mod Runs
