pub mod Fitting
pub mod Remembered
