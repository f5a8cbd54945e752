pub mod Fronts
pub mod Histories
pub mod Layers
pub mod Places
pub mod Wholes
