pub mod Electing
pub mod Leading
pub mod Plans
pub mod Ready
pub mod Ways
