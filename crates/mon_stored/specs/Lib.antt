pub mod Epochs
pub mod Joining
pub mod Runs
pub mod Taking
