pub mod Recorders
pub mod Tapes
