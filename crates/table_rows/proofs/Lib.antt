pub mod Electing
pub mod Hearing
pub mod Serving
