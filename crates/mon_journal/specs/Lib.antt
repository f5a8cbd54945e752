pub mod Content
pub mod Fields
pub mod Pieces
pub mod Steps
pub mod Written
