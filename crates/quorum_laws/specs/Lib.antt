pub mod Accepting
pub mod Commands
pub mod Elections
pub mod Leases
pub mod Promises
pub mod Values
