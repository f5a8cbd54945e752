pub mod Known
pub mod Over
pub mod Posts
pub mod Watches
