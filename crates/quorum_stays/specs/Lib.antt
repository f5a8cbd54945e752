pub mod Leaving
pub mod Reading
pub mod Serving
pub mod Steady
pub mod SteppingDown
