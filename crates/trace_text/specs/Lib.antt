pub mod Words
pub mod Shown
pub mod Sent
pub mod Trace
