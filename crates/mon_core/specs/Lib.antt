pub mod Acts
pub mod Core
pub mod Joining
pub mod Known
pub mod Reacts
pub mod Rows
