pub mod Drafts
pub mod Inputs
pub mod Parts
pub mod Rows
