pub mod Changes
pub mod Linear
pub mod Reads
pub mod Refused
