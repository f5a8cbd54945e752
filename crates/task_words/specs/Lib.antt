pub mod Addresses
pub mod Commands
pub mod Matches
pub mod Parts
pub mod Task
pub mod Words
