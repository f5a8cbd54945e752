pub mod Entries
pub mod Recorders
pub mod Tapes
