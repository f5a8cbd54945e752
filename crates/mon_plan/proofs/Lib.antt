pub mod Kept
pub mod Learning
pub mod Loops
pub mod Planning
pub mod Values
