pub mod Begins
pub mod Calls
pub mod Timed
pub mod Times
pub mod Waiting
