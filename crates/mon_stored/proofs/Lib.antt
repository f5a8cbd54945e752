pub mod EpochLaws
pub mod Fitting
pub mod Loops
pub mod Picking
pub mod Reading
pub mod Running
pub mod Standing
