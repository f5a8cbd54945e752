pub mod Formats
pub mod Greets
pub mod Histories
pub mod Laws
pub mod Names
