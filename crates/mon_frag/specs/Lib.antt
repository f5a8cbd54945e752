pub mod Headers
pub mod Keeping
pub mod Pieces
pub mod Whole
