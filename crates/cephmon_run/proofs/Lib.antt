pub mod Caused
pub mod Counting
pub mod Exact
pub mod Nodes
pub mod Runs
pub mod Schedules
pub mod Writing
pub mod Talking
