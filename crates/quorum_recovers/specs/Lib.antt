pub mod Plan
pub mod Serving
