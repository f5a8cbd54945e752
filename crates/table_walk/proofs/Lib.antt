pub mod Acts
pub mod Learning
pub mod Lists
pub mod Rows
pub mod Steps
pub mod Table
pub mod Walk
