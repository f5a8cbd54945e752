pub mod Fields
pub mod Following
pub mod Greeted
pub mod InTurn
pub mod Lengths
pub mod Whole
