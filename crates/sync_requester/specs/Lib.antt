pub mod Copied
pub mod Inputs
pub mod Rows
