pub mod Asked
pub mod Frames
pub mod Lives
pub mod Numbers
pub mod Past
