pub mod Copies
pub mod Versions
pub mod Synchronizing
