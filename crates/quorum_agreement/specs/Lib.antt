pub mod Copying
pub mod Growing
pub mod Serving
pub mod Matching
