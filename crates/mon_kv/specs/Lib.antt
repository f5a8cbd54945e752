pub mod Applied
pub mod Areas
pub mod Chunks
pub mod Readers
pub mod Tree
