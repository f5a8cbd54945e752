pub mod Words
pub mod Fields
pub mod Ranks
pub mod Encoding
pub mod Requests
pub mod Lines
pub mod Schedule
