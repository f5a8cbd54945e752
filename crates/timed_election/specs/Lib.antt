pub mod Election
pub mod Joining
pub mod Keeping
pub mod Probing
