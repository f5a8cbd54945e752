pub mod Showing
pub mod Phases
pub mod Acts
pub mod Rows
pub mod Runs
pub mod Lagging
pub mod Datagrams
